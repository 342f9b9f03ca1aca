pub mod TryLine
