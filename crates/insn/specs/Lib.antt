-- Internal. The modules of this folder.
pub mod Register
pub mod Codes
pub mod Opcode
pub mod Fields
pub mod Encoding
pub mod Jumps
pub mod Spelling
pub mod Refusal
pub mod Forms
pub mod Words
pub mod laws
pub use Rattle.byteorder.specs.Endian
pub use Rattle.byteorder.specs.Numbers
