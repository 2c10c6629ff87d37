pub mod Array
pub mod Fits
pub mod Ranks
pub mod Calls
pub mod Parts
