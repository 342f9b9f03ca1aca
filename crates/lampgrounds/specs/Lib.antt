pub mod Steps
pub mod Opening
