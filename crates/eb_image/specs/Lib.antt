pub mod Image
pub mod Reading
pub mod Scan
pub mod Faults
pub mod First
