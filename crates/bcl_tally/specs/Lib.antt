pub mod Tally
pub mod Ranks
pub mod Calls
pub mod Guarded
pub mod Parts
