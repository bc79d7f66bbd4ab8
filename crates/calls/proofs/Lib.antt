pub mod Laws
pub mod Unique
