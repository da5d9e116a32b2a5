-- Internal. The modules of this folder.
pub mod Domains
pub mod Intervals
pub mod Narrowness
pub mod laws
