pub mod Conversions
pub mod Indexes
