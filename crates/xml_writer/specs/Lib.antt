pub mod CanonXml
pub mod CanonXmlExample
pub mod SpellingLaw
pub mod Laws
pub mod inner
