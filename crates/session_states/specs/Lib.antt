pub mod Versions
pub mod OverChains
