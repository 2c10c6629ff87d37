pub mod Count
pub mod Counts
