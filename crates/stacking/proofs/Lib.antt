pub mod Filling
pub mod Then
