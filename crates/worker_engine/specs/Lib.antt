pub mod Shelves
pub mod Served
