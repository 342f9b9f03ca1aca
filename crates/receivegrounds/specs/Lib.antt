pub mod Stages
pub mod InOrder
