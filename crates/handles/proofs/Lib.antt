pub mod Naming
pub mod Free
pub mod Passing
pub mod Owning
pub mod Keys
pub mod Handing
