pub mod Publishing
pub mod Holding
pub mod Marking
pub mod Marks
pub mod Unlinked
pub mod Shaped
