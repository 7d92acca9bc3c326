pub mod Transcoded
mod Held
mod BothForms
mod KnownTexts
mod PathLemmas
mod Depths
mod NameLemmas
mod Admitted
pub mod Bulks
pub mod GrownBulks
pub mod DerSizes
pub mod DerReadable
pub mod XmlNodes
pub mod XmlTokens
pub mod XmlDocuments
pub mod XmlReadable
pub mod RepositoryTexts
pub mod ReachedPlaces
pub mod StructureRules
pub mod OtherRules
pub mod Ready
pub mod MessageTables
