pub mod LinkSet
pub mod Labelling
pub mod Offers
pub mod Rounds
pub mod Laws
pub mod Ports
pub mod Exchanges
