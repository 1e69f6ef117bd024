pub mod Places
pub mod VectorsEach
