pub mod Tables
pub mod Steps
pub mod Histories
pub mod Sessions
pub mod Examples
