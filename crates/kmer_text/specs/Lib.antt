pub mod Lines
pub mod Letters
pub mod Windows
pub mod Kmers
pub mod Nodes
pub mod NodeWords
pub mod NodeLaws
