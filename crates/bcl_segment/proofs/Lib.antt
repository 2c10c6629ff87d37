pub mod RisingLemmas
pub mod Stills
