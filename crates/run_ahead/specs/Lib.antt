pub mod Placed
pub mod Placing
pub mod Tasks
pub mod Runs
pub mod Held
pub mod Pieces
pub mod Ahead
