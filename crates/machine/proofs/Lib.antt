pub mod Executions
pub mod Frames
pub mod SafeRuns
pub mod FlatFrames
