pub mod Placeholders
