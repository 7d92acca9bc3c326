pub mod Codes
pub mod CodesErrors
pub mod ErrorTexts
pub mod Laws
pub mod inner
