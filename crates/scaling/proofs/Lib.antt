pub mod Sweep
pub mod NearLaws
