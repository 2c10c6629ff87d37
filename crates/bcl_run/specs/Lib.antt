pub mod Verdict
pub mod Book
pub mod Owed
pub mod Headline
