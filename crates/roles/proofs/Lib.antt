pub mod Eight
pub mod Distances
pub mod Testing
pub mod Fitting
