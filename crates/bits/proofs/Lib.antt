pub mod BitLaws
pub mod FillLaws
pub mod Streams
pub mod Windows
