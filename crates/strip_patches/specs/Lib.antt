pub mod Bands
pub mod LevelStrips
pub mod Nodes
pub mod Pictures
pub mod Shown
