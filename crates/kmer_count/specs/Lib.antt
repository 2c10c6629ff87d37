pub mod Book
pub mod Fills
