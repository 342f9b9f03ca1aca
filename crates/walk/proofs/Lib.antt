pub mod Rows
pub mod Step
pub mod Turned
pub mod Stores
pub mod Symbols
pub mod Walks
pub mod Table
