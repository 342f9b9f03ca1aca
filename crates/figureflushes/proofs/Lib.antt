pub mod Putting
pub mod Places
pub mod Fresh
