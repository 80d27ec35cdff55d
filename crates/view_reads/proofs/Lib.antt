pub mod Cuts
pub mod ViewTiles
pub mod Sources
pub mod LevelParts
pub mod Growing
pub mod ReadParts
pub mod LoopParts
