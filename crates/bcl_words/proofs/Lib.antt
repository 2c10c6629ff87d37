pub mod ReasonsLemmas
pub mod WordsPass
pub mod Fitting
pub mod NumberReads
pub mod PairsRead
pub mod BytesRead
pub mod ByteLoops
pub mod AnyOrder
