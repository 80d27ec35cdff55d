pub mod BufferTables
pub mod BufferLaws
pub mod Causes
pub mod Edits
pub mod Shares
pub mod Reads
pub mod Freezing
pub mod RecentTiles
