pub mod Counts
pub mod Steps
pub mod Afresh
