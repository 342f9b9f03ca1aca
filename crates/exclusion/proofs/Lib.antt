pub mod Trials
pub mod ClaimLaws
