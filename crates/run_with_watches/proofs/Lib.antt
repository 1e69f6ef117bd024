pub mod Setting
pub mod OtherLines
pub mod Telling
