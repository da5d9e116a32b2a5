-- Internal. The modules of this folder.
pub mod Commands
pub mod Relayed
pub mod Values
