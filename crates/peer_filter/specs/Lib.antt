-- Internal. The modules of this folder.
pub mod Defaults
pub mod Filters
pub mod Networks
pub mod Servers
