pub mod Held
pub mod Stepped
