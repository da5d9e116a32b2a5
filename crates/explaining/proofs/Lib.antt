pub mod Trailing
pub mod Ending
pub mod Statuses
pub mod Lines
pub mod PathTables
pub mod RunPaths
pub mod Costs
pub mod Remedies
