pub mod Holds
pub mod Fits
pub mod Whole
