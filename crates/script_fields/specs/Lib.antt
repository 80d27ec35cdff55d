pub mod Answers
pub mod Causes
pub mod Fields
pub mod Limits
pub mod Spelling
