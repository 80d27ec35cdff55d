pub mod LevelTiles
pub mod Over
pub mod Steps
pub mod Found
pub mod NewTiles
pub mod Means
