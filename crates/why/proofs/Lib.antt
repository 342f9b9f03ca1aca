pub mod Chains
pub mod Pilots
pub mod Answered
