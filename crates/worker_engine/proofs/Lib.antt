pub mod Shelves
pub mod Steps
pub mod Pieces
