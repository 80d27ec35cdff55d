pub mod Chains
pub mod Cutting
pub mod Growth
pub mod Made
pub mod Paints
pub mod Reads
pub mod Roots
pub mod Writes
