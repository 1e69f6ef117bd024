pub mod Converting
pub mod Progress
