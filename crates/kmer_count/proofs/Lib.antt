pub mod Times
pub mod Merges
pub mod Books
pub mod Sorts
pub mod Ones
pub mod Shares
pub mod Columns
