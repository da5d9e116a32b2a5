pub mod Deciding
pub mod DefaultRules
mod Families
pub mod Decisions
pub mod Shifts
pub mod Texts
