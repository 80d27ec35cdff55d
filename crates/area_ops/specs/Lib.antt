pub mod Kinds
pub mod Grown
