pub mod Apart
pub mod Listed
pub mod NoToken
pub mod Found
pub mod Decimals
pub mod WrittenIds
