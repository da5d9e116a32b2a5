-- Internal. The modules of this folder.
pub mod Drawn
pub mod laws
