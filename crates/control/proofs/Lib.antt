pub mod Types
pub mod Peers
pub mod Kept
pub mod Limits
pub mod Checked
pub mod Decisions
