pub mod Text
pub mod Bytes
