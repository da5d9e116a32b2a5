pub mod RefusedFields
pub mod NamedFaults
pub mod Parted
