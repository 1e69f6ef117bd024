pub mod Coming
pub mod Seeing
pub mod Texts
pub mod Taking
pub mod ByKind
pub mod OneText
pub mod NeverFull
