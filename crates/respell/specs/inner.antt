-- What private functions alone cite, in reading order.
pub mod Declaring
pub mod FragmentReading
pub mod RunBytes
