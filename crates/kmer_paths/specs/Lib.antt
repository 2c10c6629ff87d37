pub mod Keys
pub mod Walks
pub mod Contigs
