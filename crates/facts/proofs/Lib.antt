pub mod Accepted
pub mod Scattered
pub mod Framed
pub mod Bands
pub mod Few
pub mod Unranked
pub mod Sizes
pub mod Data
