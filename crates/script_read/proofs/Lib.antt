pub mod CommandsBack
pub mod FormLaws
pub mod InLimits
pub mod PrintLaws
pub mod ReadBack
pub mod ScriptLaws
mod Outcomes
mod LineOutcomes
mod TextOutcomes
