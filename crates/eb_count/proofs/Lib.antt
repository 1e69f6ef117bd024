pub mod Counting
pub mod VectorsCounts
