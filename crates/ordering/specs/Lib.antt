-- Internal. The modules of this folder.
pub mod Orders
pub mod laws
pub mod BranchTargets
pub mod Tails
pub mod Searches
pub mod Files
