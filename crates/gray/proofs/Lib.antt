pub mod Signs
pub mod Computed
pub mod PositionLaws
pub mod GrayLaws
pub mod Packed
