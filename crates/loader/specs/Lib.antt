-- Internal. The modules of this folder.
pub mod Loads
pub mod Verdicts
pub mod LoadingWalk
pub mod Slices
