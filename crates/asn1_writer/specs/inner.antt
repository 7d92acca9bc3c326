-- What private functions alone cite, in reading order.
pub mod Segments
