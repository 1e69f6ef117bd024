pub mod Savings
pub mod Images
pub mod Takings
pub mod LoadEnds
