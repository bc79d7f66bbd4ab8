pub mod Tests
pub mod Rows
pub mod All
pub mod Lists
pub mod Chain
pub mod Plain
