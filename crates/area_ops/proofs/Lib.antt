pub mod Near
pub mod Moved
pub mod Padded
pub mod Squares
