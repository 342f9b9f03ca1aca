pub mod Stages
pub mod Admissions
