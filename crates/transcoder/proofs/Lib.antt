pub mod Readings
pub mod Limits
pub mod XmlFaults
pub mod DerFaults
pub mod Verdicts
pub mod Transcodings
