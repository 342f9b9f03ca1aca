pub mod Decimals
pub mod Growth
pub mod Examples
