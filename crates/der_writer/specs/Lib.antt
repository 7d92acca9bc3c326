pub mod Measured
pub mod inner
