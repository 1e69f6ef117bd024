pub mod Turns
pub mod Rules
pub mod Mail
