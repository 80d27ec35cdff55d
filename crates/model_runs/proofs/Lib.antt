mod CacheSizes
mod FrameNumbers
mod Loading
pub mod OptionRanges
pub mod AppliedCounts
pub mod Leaving
mod ValidNodes
pub mod RunCounts
