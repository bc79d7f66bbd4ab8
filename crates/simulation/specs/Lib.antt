pub mod Named
pub mod Beside
