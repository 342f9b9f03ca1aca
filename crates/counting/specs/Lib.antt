pub mod Search
pub mod Runs
pub mod Bytes
