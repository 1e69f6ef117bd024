pub mod Others
pub mod WatchRules
pub mod Watched
