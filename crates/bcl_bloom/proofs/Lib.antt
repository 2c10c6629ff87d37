pub mod Blocks
pub mod Founds
