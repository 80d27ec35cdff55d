pub mod Parts
pub mod Requests
pub mod Refusals
pub mod Renders
pub mod Scenes
