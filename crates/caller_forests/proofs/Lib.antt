mod ArcPlaces
mod FirstFaults
mod FirstPlaces
pub mod Givens
mod LeastPlaces
mod NoLoops
