pub mod Frames
pub mod HubScenes
pub mod Leaving
pub mod Refusals
pub mod Viewers
