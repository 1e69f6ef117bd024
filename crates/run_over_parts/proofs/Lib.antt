pub mod Histories
pub mod Placings
pub mod Closing
pub mod Runs
pub mod Counts
