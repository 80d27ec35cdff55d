pub mod Evaluating
pub mod ChangeLaws
pub mod WindowLaws
