pub mod Machine
pub mod State
pub mod Rule
pub mod Kept
pub mod Laws
pub mod Shards
