pub mod Transitive
pub mod Stay
pub mod Committed
