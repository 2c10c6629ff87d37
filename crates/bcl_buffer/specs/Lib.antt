pub mod Lanes
pub mod Exchanges
pub mod Turning
pub mod Drains
pub mod Batches
pub mod Flushes
