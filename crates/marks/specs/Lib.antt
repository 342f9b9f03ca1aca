pub mod Marked
pub mod Stages
