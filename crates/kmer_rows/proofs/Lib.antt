pub mod Occurs
pub mod Entries
pub mod Texts
