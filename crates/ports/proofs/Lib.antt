pub mod EngineLines
pub mod GivenBytes
