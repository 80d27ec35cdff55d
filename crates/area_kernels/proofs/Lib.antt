pub mod Picking
pub mod Squares
pub mod Sweeps
pub mod CopiedSamples
pub mod PartLaws
pub mod SumLaws
pub mod DivisorLaws
pub mod MeanLaws
