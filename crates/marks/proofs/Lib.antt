pub mod Stretches
pub mod Painting
pub mod Around
pub mod Placing
pub mod Marks
