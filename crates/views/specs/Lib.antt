pub mod Views
pub mod Copies
