pub mod Rounds
pub mod OpenLinks
pub mod Parts
pub mod Components
pub mod Apart
