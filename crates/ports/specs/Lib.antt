pub mod EngineLines
pub mod Testing
pub mod LineLaws
