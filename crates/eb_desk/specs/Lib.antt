pub mod Homes
pub mod Asks
pub mod Rule
pub mod Steps
pub mod Desk
pub mod Laws
