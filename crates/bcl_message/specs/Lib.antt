pub mod Stop
pub mod Message
