pub mod Trial
pub mod Copied
pub mod Claims
