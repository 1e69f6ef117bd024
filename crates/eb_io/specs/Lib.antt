pub mod Faults
pub mod Source
pub mod Sink
pub mod Memory
pub mod Lines
pub mod Held
pub mod Buffers
pub mod Standard
