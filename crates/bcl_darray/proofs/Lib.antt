pub mod Frames
pub mod Gets
pub mod Puts
pub mod Reading
pub mod Atomics
pub mod Fills
pub mod Seated
pub mod Blocks
