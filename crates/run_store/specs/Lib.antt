pub mod Sees
pub mod Rows
pub mod Rules
pub mod Text
pub mod Stores
pub mod Questions
pub mod Answering
pub mod Laws
