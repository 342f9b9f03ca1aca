pub mod Kept
pub mod Starts
pub mod Sends
pub mod Hears
pub mod Fills
pub mod Claims
