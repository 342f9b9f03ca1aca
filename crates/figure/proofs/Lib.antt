pub mod Sizes
pub mod Turns
pub mod Lines
pub mod Fresh
pub mod Needs
pub mod Worked
