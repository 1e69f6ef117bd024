pub mod Bits
pub mod Covers
pub mod Likely
