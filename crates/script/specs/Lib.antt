pub mod Lines
pub mod Puts
pub mod Reading
pub mod Texts
