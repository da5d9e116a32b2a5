-- Internal. The modules of this folder.
pub mod Layout
pub mod Targets
pub mod Signed
pub mod Blocks
pub mod Keeping
pub mod Searches
pub mod Walk
pub mod Walks
pub mod Refusing
pub mod PendingStates
pub mod Slices
pub mod SliceEnds
pub mod Units
pub mod laws
