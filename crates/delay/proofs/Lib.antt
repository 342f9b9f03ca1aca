pub mod Shifts
pub mod Steps
pub mod Passing
