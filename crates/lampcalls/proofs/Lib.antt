pub mod LampReads
