pub mod Term
pub mod Hashing
pub mod Document
pub mod Query
pub mod Match
pub mod Setting
pub mod MatchLaw
pub mod Faults
