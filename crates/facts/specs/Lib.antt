pub mod Facts
pub mod Reached
pub mod Swapped
