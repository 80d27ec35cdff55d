pub mod Sources
pub mod Continuing
pub mod Steps
pub mod RightPairs
pub mod Actions
