-- Internal. The modules of this folder.
pub mod Runs
pub mod Relaying
pub mod PlainSends
pub mod Client
pub mod Peer
