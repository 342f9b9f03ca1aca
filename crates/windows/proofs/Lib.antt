pub mod Windows
pub mod Grounds
