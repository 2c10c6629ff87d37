pub mod Numerals
pub mod Said
pub mod Decoding
pub mod Reading
pub mod Asked
