pub mod EntryAnswers
pub mod Counts
