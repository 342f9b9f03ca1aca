pub mod Points
pub mod Answers
pub mod Back
pub mod Made
pub mod Roots
pub mod Table
pub mod Squares
