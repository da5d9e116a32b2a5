-- Interface. The laws of the definitions, which are proved, so that nobody has to believe them.
pub mod Moment
pub mod WellFormed
pub mod Map
pub mod Retained
pub mod Row
pub mod Permit
pub mod Channel
