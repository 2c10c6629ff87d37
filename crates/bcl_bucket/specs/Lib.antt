pub mod Controls
pub mod Paths
