pub mod Asked
pub mod Joined
pub mod Status
pub mod Streams
