pub mod Places
pub mod Parts
pub mod Resting
pub mod Steps
pub mod Allowed
pub mod Rising
