pub mod Respelling
pub mod Kept
pub mod ShortTags
pub mod Laws
pub mod FragmentChecks
pub mod inner
