-- What private functions alone cite, in reading order.
pub mod Words
pub mod DateParts
pub mod Taking
