pub mod Octets
pub mod ByteSteps
pub mod Swapped
