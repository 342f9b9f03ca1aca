pub mod GrayTable
pub mod Writing
pub mod Entries
pub mod RowLaws
pub mod Sides
pub mod Reading
