pub mod Tables
pub mod Unique
pub mod Slots
pub mod SignedWords
pub mod TwoSlots
pub mod Programs
