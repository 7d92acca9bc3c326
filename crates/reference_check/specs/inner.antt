-- What private functions alone cite, in reading order.
pub mod First
pub mod Ranks
pub mod Owners
pub mod Sizes
pub mod FiniteSearch
pub mod Traces
pub mod Marking
pub mod Subjects
pub mod Told
pub mod SeenTexts
