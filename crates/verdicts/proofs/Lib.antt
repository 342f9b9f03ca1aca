pub mod Edges
pub mod Verdicts
