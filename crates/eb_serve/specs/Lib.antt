pub mod Jobs
pub mod Rule
pub mod Desk
