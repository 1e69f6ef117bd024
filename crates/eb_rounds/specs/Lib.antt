pub mod Inputs
pub mod Shown
pub mod Works
pub mod Working
pub mod Standing
pub mod Kept
pub mod Takes
pub mod Passed
