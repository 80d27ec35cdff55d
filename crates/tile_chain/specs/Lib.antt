pub mod DiskTiles
pub mod Overlay
pub mod Zeros
pub mod OwnedTiles
pub mod CacheCalls
