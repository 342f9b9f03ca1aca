pub mod House
pub mod Cells
pub mod Some
pub mod Counts
pub mod Ordered
pub mod Loads
