-- Internal. The modules of this folder.
pub mod Actions
pub mod Events
pub mod Fields
pub mod LentEvents
pub mod Lines
pub mod Parsing
pub mod Reading
pub mod laws
