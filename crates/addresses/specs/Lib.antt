-- Internal. The modules of this folder.
pub mod Addresses
pub mod laws
pub mod AddressOrder
pub mod AddressTexts
