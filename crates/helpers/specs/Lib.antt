-- Internal. The modules of this folder.
pub mod laws
pub mod LookUps
