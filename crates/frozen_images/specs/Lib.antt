pub mod Frozen
pub mod Scenes
