pub mod TermRoom
pub mod Cutting
