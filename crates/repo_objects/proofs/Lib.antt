pub mod Additions
pub mod Lookups
pub mod Codes
