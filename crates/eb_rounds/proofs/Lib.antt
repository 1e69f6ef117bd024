pub mod Collected
pub mod Rounding
pub mod Rounded
pub mod Keeping
