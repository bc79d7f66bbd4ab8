pub mod Laws
pub mod Descent
