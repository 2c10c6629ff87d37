mod Lists
mod Entries
pub mod Bits
mod Presence
mod Orders
pub mod Values
pub mod Rooms
pub mod Folds
pub mod Ranks
mod NumbersPass
