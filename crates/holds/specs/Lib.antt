pub mod Held
pub mod Marked
pub mod Unlinked
