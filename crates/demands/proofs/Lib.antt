pub mod CodeRuns
pub mod Marked
pub mod Demands
