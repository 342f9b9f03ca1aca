pub mod Spotted
pub mod Placeholders
