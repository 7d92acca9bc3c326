-- What private functions alone cite, in reading order.
pub mod Packed
pub mod Texts
pub mod Others
pub mod Nodes
pub mod Numbers
