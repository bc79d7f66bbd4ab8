pub mod Promise
pub mod Fits
pub mod Readied
