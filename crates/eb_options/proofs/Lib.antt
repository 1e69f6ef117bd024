pub mod SettingNumbers
pub mod Walking
pub mod Splitting
pub mod Eachs
pub mod Texts
