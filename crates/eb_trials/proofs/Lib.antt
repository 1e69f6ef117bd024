pub mod Records
pub mod StoresLeft
pub mod Additions
pub mod OneSegment
pub mod Givings
pub mod Packs
pub mod VectorsBounds
