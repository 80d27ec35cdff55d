pub mod Fitting
pub mod FormatLaws
pub mod ListLaws
pub mod PrintLaws
pub mod RectanglesBack
pub mod Values
pub mod ValuesBack
