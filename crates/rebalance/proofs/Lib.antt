pub mod Laws
pub mod Unused
pub mod Copies
pub mod Readied
