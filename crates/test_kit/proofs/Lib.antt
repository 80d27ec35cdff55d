pub mod Cuts
pub mod BlankTile
pub mod OneWindow
mod Required
