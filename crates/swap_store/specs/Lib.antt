pub mod Run
pub mod Placement
pub mod Content
pub mod Refusal
pub mod Store
