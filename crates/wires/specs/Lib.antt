pub mod Lines
pub mod LineSources
pub mod Clients
pub mod Causes
pub mod Steps
pub mod Sending
pub mod Wires
