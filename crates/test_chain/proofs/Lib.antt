mod PageLaws
pub mod TableLaws
