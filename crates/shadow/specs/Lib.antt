-- Internal. The modules of this folder.
pub mod Comparisons
pub mod CountValues
