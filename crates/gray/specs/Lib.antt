pub mod Gray
pub mod Positions
