pub mod NameLaws
pub mod BufferLaws
pub mod EditLaws
