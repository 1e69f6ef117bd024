pub mod DocumentLine
pub mod FieldTerms
pub mod WithFields
pub mod Laws
pub mod Faults
pub mod Seen
pub mod Looked
