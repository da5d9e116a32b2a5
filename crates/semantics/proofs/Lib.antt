pub mod Loads
pub mod Places
pub mod Finding
pub mod Reduces
