pub mod Names
pub mod MapValues
pub mod Ownership
pub mod Growing
pub mod HeldLaws
pub mod Causes
