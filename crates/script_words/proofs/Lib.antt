pub mod Passing
pub mod FileNamesLemmas
pub mod LineLaws
pub mod WordLaws
pub mod NumberLaws
