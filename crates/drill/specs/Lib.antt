pub mod BuiltIn
pub mod Growing
pub mod Drilled
pub mod inner
