pub mod Numbering
pub mod Rooted
pub mod Held
pub mod Answering
pub mod Adding
