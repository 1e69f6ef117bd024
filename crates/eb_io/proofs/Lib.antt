pub mod Bytes
pub mod Ends
pub mod Given
pub mod Pieces
pub mod VectorsEnds
