pub mod Studied
