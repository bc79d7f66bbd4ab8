pub mod Filling
pub mod Clearing
