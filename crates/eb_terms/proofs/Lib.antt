pub mod Words
pub mod Reading
pub mod Probing
pub mod NextTerms
pub mod VectorsFinding
