pub mod Conversions
pub mod IndexRules
pub mod Indexed
pub mod Spared
