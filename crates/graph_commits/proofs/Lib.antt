pub mod BufferLaws
pub mod WalkLaws
pub mod StateLaws
pub mod SuitedLaws
pub mod InputLaws
pub mod GraphLaws
pub mod FilterLaws
pub mod VoidLaws
