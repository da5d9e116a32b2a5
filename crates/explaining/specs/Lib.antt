-- Internal. The modules of this folder.
pub mod Paths
pub mod Trails
pub mod Texts
pub mod Remedies
pub mod LongestPaths
pub mod Tables
pub mod Explained
pub mod Lines
