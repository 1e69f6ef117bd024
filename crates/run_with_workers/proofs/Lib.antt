pub mod Waits
pub mod NextLines
pub mod Servings
pub mod Endings
pub mod Staffing
pub mod Tallies
pub mod IndexOffices
pub mod Askings
