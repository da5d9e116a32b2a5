-- Internal. The modules of this folder.
pub mod OnePeer
pub mod laws
