pub mod Moments
pub mod Strips
pub mod Looks
pub mod Ahead
pub mod Batches
pub mod Steps
