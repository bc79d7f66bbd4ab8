pub mod Late
pub mod Naming
pub mod Holding
pub mod Seeing
pub mod Removing
