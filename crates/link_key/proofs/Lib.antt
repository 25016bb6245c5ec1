pub mod Touching
mod Keeping
mod Marks
mod Owns
mod Fronts
mod Composing
pub mod Stages
pub mod Opened
pub mod Filling
pub mod Parts
mod Firsts
mod Acyclic
mod Once
