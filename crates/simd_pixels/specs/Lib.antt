pub mod Planes
pub mod Components
pub mod ComponentsLaws
pub mod LayoutLaws
pub mod SizeLaws
