pub mod Digits
pub mod Laws
pub mod Rows
pub mod Shape
