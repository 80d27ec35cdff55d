pub mod Cutting
pub mod CuttingLaws
pub mod BlankBuffers
pub mod Applicable
