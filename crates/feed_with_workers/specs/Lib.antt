pub mod FeedRules
pub mod Offices
pub mod Laws
