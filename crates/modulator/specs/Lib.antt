pub mod Lines
pub mod Symbols
pub mod Claims
