pub mod Needed
pub mod Reaches
pub mod Views
