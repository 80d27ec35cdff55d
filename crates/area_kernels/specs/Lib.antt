pub mod Sequences
pub mod Parts
pub mod PickLaws
pub mod Columns
