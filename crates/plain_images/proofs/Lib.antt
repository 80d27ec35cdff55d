pub mod Pictures
pub mod WindowSamples
pub mod OperationSamples
