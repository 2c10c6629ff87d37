pub mod Bloom
pub mod Calls
