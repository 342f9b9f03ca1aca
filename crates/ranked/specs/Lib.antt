pub mod Ground15
