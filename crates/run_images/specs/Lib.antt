pub mod Saved
pub mod Saving
pub mod SavingLaws
pub mod Loaded
pub mod Reading
