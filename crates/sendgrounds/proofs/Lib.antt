pub mod Stages
pub mod Answers
