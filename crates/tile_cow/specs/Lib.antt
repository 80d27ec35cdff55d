pub mod Block
pub mod Owner
pub mod Tile
