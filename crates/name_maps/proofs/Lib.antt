pub mod PageLaws
pub mod Lengths
