pub mod Removers
