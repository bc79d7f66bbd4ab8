pub mod Words
pub mod Rises
