pub mod Helds
pub mod Behind
pub mod TakenIn
pub mod Adding
pub mod MailKept
pub mod Taking
pub mod GoingOn
pub mod Counting
pub mod LettingGo
mod Rows
