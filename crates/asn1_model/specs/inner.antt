-- What private functions alone cite, in reading order.
pub mod Joined
pub mod Given
pub mod Order
pub mod Places
pub mod TypeNames
pub mod Fields
