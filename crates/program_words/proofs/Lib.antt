pub mod WordMeanings
pub mod Writing
