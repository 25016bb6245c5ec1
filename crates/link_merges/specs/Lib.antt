pub mod Merges
pub mod Cuts
pub mod Halves
