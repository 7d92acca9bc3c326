pub mod AddError
pub mod MessageId
pub mod Objects
pub mod Repository
pub mod Stored
pub mod Laws
