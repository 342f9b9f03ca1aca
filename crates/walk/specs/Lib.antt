pub mod Walk
pub mod Stores
pub mod Claims
pub mod Table
