pub mod Turns
pub mod Goes
pub mod Ghosts
