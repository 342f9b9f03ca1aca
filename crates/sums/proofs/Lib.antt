pub mod SumLaws
pub mod Singles
