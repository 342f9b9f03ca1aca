pub mod Number
pub mod Reading
pub mod Printed
