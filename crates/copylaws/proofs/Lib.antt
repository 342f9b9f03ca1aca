pub mod Records
pub mod Chains
pub mod Entries
pub mod Ranked
pub mod Copy
pub mod Walked
