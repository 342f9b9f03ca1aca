pub mod Opened
pub mod Heard
