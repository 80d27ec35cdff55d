pub mod Applying
pub mod HeldBytes
pub mod NodeOps
pub mod PartBytes
pub mod Sources
pub mod TileList
