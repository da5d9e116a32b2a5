-- Interface. The laws of the definitions, which are proved, so that nobody has to believe them.
pub mod Start
pub mod Access
pub mod Group
pub mod Context
pub mod Call
pub mod Number
pub mod Effect
pub mod Slot
pub mod Run
pub mod Swap
pub mod Kept
pub mod Nothing
pub mod Lawful
pub mod Records
