pub mod Picture
pub mod Evaluation
