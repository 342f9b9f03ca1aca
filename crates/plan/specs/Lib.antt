pub mod Noted
pub mod Walk
