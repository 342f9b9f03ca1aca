pub mod NoteLaws
pub mod SweepLaws
