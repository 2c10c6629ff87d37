pub mod Verdicts
pub mod Owing
pub mod Told
pub mod Headlines
