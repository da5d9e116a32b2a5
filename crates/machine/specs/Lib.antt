-- Internal. The modules of this folder.
pub mod Contexts
pub mod Contents
pub mod FrameFields
pub mod laws
pub mod Lends
pub mod Tracing
pub mod Execution
pub mod Keeping
pub mod Lines
