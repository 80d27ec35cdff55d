pub mod Folds
pub mod Joined
pub mod Strip
pub mod Held
pub mod Needs
pub mod Shown
pub mod HandedOn
pub mod Turns
