pub mod Host
pub mod CallEntries
pub mod WhyRead
