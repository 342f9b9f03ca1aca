pub mod Stores
pub mod Emitters
pub mod Claims
