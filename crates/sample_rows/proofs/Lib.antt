pub mod RowLaws
pub mod GroupLaws
pub mod BlockLaws
pub mod RecolorLaws
pub mod SampleLaws
pub mod VectorLaws
pub mod GainLaws
pub mod ConvertLaws
