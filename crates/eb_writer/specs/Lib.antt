pub mod Recall
pub mod Counting
pub mod Storing
pub mod Progress
pub mod Laws
