pub mod ResultLaws
pub mod RegionLaws
pub mod WindowLaws
pub mod RangeLaws
pub mod BoxLaws
pub mod Equality
