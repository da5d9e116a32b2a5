pub mod Loads
pub mod Raising
pub mod Linking
pub mod Generality
