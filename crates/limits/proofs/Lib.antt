pub mod Tests
pub mod Searching
pub mod Grounds
