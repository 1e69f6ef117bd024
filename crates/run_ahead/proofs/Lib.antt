pub mod Placings
pub mod RunTasks
pub mod Running
pub mod Waitings
pub mod Pieces
pub mod HeldLines
pub mod VectorsLines
pub mod VectorsPlaced
