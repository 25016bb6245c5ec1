pub mod Serving
pub mod Session
pub mod Laws
pub mod Examples
