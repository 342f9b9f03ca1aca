pub mod Drawn
pub mod Inputs
