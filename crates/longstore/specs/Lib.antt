pub mod Store
pub mod Steps
pub mod Receive
pub mod Run
pub mod Same
