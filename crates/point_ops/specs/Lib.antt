pub mod Changes
pub mod Combinations
pub mod Flipped
pub mod Generated
pub mod Moved
pub mod PointOps
