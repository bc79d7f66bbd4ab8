pub mod Left
pub mod Slotted
