pub mod Flags
pub mod Lasts
