pub mod Lanes
pub mod Shuffle
