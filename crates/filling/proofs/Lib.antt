pub mod Starts
pub mod Measures
