pub mod Blocks
pub mod Filling
pub mod Inputs
