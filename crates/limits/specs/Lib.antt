pub mod BandAt
pub mod Answers
