-- What private functions alone cite, in reading order.
pub mod PieceOctets
pub mod Passes
pub mod Heads
pub mod Measuring
pub mod Writing
