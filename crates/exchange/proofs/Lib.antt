pub mod Exchanges
pub mod Groups
