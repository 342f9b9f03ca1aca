pub mod Figure
pub mod Steps
pub mod Worked
pub mod Needs
