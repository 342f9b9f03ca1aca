pub mod Single
pub mod Scale
