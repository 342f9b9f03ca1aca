pub mod Pilots
pub mod Claims
pub mod Marked
