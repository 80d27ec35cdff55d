pub mod BandLemmas
pub mod StoredFilesLemmas
pub mod BlockLemmas
pub mod BlockRanges
