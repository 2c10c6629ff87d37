pub mod Places
pub mod Conflicts
pub mod Repeats
pub mod Paths
pub mod Walks
pub mod NextKeys
pub mod Bytes
pub mod ByteOrder
