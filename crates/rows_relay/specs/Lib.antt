-- Internal. The modules of this folder.
pub mod Stored
