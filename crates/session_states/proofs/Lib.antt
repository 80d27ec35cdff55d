pub mod Names
pub mod Beside
pub mod Seen
pub mod Edited
pub mod Shared
pub mod Released
pub mod Returned
pub mod Stepping
