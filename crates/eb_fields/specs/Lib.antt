pub mod Fields
pub mod Laws
pub mod Dialect
pub mod Digits
pub mod Ids
pub mod Given
