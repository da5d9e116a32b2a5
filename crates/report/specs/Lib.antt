-- Internal. The modules of this folder.
pub mod Statuses
pub mod Traces
pub mod Texts
