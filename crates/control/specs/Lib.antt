-- Internal. The modules of this folder.
pub mod Configs
pub mod Users
pub mod laws
pub mod Values
pub mod Unknown
pub mod Replies
pub mod Lengths
pub mod Control
pub mod Serving
pub mod Peers
pub mod Responding
