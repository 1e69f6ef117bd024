pub mod Recorded
pub mod Grown
pub mod Added
