pub mod Gray
