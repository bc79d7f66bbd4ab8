pub mod Rows
pub mod Entries
pub mod Chunks
pub mod Copies
pub mod Stacks
pub mod Naming
pub mod Chained
