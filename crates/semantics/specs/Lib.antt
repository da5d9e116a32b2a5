-- Internal. The modules of this folder.
pub mod Machine
pub mod laws
pub mod Access
pub mod Loading
pub mod Calls
pub mod Effects
pub mod Kept
pub mod Slots
pub mod Reasons
pub mod Runs
pub mod Records
pub mod Nothing
pub mod Extents
pub mod Flow
pub mod LooseRuns
pub mod Views
