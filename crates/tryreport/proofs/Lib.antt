pub mod TryLines
