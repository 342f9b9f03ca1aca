pub mod Spoiled
