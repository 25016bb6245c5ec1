mod Counts
pub mod InTurn
mod SaysMore
