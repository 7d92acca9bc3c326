-- What private functions alone cite, in reading order.
pub mod PlainOctets
pub mod Entering
pub mod Runs
pub mod KeptRuns
pub mod Nesting
pub mod OpenNames
pub mod Elements
pub mod KnownLeaves
