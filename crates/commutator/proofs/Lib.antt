pub mod Cells
pub mod Rounds
pub mod Symbols
