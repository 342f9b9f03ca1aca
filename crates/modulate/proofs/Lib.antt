pub mod Unrefused
pub mod Modulating
