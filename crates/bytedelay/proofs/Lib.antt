pub mod ByteShifts
pub mod ByteSteps
