pub mod Laws
pub mod Layouts
