-- Internal. The modules of this folder.
pub mod Decimals
pub mod Fallible
pub mod Inputs
pub mod Options
pub mod Outputs
pub mod Shown
pub mod laws
