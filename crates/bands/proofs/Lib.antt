pub mod BandLaws
pub mod BandWalk
pub mod Step
