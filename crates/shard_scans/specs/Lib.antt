pub mod Scanning
pub mod Live
pub mod Parts
pub mod Tables
pub mod Numbers
