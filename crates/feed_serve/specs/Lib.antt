pub mod Feeds
pub mod Jobs
pub mod Desk
