pub mod Hulls
pub mod Joined
pub mod Named
pub mod AskedLaws
pub mod StatedLaws
pub mod NeedLaws
pub mod Widths
