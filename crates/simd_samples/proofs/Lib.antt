mod Pointwise
mod Saturation
mod Moves
pub mod SliceLaws
mod Shuffling
mod Arithmetic
mod Reached
mod Interleaving
mod VectorLaws
mod Scaling
mod DepthLaws
mod Blending
