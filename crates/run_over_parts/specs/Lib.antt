pub mod AcceptedInParts
pub mod Texts
pub mod Stores
pub mod Parted
