pub mod Nodes
pub mod Book
pub mod Fills
pub mod Finds
pub mod Checks
pub mod Texts
pub mod Faults
