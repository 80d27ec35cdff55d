pub mod Name
pub mod Parts
pub mod Rectangle
pub mod SameRectangle
pub mod SameTile
pub mod Tile
