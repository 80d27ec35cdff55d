pub mod Agreeing
pub mod Pixels
pub mod Pairs
pub mod Rows
pub mod Squares
pub mod Moved
pub mod Flipped
pub mod Results
