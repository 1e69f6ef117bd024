pub mod Putting
pub mod Filling
pub mod Blocks
pub mod Terms
