pub mod ReadyLaws
mod CommitLaws
