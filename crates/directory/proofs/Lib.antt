pub mod Fitting
pub mod Unique
