pub mod Commits
pub mod Follows
