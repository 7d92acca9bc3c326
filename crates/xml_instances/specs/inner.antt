-- What private functions alone cite, in reading order.
pub mod Quick
pub mod Fronts
pub mod Known
