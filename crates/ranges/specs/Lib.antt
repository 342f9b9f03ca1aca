pub mod Reach
pub mod Swept
