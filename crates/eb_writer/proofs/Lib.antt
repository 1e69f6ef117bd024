pub mod Recalling
pub mod Idle
pub mod Tallies
pub mod Finding
pub mod Coming
pub mod Ends
pub mod Adding
