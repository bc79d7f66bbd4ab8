pub mod Laws
pub mod Sequential
