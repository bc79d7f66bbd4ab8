pub mod Digits
pub mod Putting
pub mod Stacks
pub mod States
pub mod Verbs
pub mod Words
