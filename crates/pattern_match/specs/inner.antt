-- What private functions alone cite, in reading order.
pub mod Plan
pub mod Carried
pub mod Refusal
pub mod Counting
pub mod Drafting
