pub mod Offering
pub mod Versions
pub mod Replying
pub mod Sessions
pub mod FirstVersion
