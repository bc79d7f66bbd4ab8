pub mod Parts
pub mod Plain
