pub mod LampLine
