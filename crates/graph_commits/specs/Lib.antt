pub mod States
pub mod Damages
pub mod Histories
pub mod Graphs
