pub mod LineLaws
pub mod LineClaims
pub mod ProfileLaws
