pub mod Files
pub mod Outcomes
pub mod PlainRun
pub mod ReportText
pub mod Sieve
pub mod FaultText
pub mod Parts
