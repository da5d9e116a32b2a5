pub mod Numbers
pub mod Masks
pub mod Addresses
pub mod Unknown
