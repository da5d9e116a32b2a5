-- Internal. The modules of this folder.
pub mod Aliases
pub mod Secrets
pub mod Setups
pub mod Users
