pub mod Entries
pub mod Frames
pub mod Changes
pub mod Keeping
pub mod Switching
pub mod Fresh
pub mod Owning
pub mod Averaging
pub mod Counting
pub mod Finding
pub mod Holding
mod Empty
pub mod PutTiles
pub mod SwitchingAll
pub mod FourMeans
pub mod HalfRows
