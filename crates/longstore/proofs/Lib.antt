pub mod Rows
pub mod Entries
pub mod Emitters
pub mod Receivers
pub mod Claims
