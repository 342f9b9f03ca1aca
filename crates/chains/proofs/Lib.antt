pub mod Steps
pub mod LastLaws
