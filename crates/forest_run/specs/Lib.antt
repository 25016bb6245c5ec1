pub mod Cuttings
pub mod WiredLines
pub mod LinesRun
