pub mod Steps
pub mod EditLaws
pub mod NeedLaws
pub mod Named
