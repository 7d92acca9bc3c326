pub mod Plain
pub mod Fragment
