pub mod Putting
pub mod Fresh
