pub mod Runs
pub mod Answers
pub mod Sound
