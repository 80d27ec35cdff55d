pub mod Filling
pub mod Banded
pub mod Served
pub mod Halves
pub mod Scaled
pub mod Adding
pub mod Tiled
