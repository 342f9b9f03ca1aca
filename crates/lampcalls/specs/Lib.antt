pub mod LampRead
