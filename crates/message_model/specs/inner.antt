-- What private functions alone cite, in reading order.
pub mod Quick
pub mod Ahead
pub mod Numbers
pub mod FirstPlaces
pub mod Sorted
