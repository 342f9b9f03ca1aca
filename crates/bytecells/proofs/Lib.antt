pub mod OctetLaws
pub mod Filled
