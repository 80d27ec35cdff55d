pub mod Groups
pub mod SizeLaws
pub mod Averages
pub mod Depths
pub mod ScaledGain
