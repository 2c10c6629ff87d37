pub mod Sum
pub mod SumLaws
pub mod LeastWords
pub mod LeastWordsLaws
