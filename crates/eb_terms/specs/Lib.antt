pub mod Finding
pub mod Comparing
pub mod Entering
