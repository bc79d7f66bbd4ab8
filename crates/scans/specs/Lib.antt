pub mod Scanned
pub mod Sunk
