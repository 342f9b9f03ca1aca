pub mod Firsts
pub mod Phases
pub mod Answers
pub mod Truth
