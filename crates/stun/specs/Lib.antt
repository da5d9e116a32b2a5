-- Internal. The modules of this folder.
pub mod Registry
pub mod Messages
pub mod Types
pub mod ErrorCodes
pub mod Refusals
pub mod Ranges
pub mod Channels
pub use Rattle.byteorder.specs.Endian
pub mod Reading
pub mod Datagrams
pub mod Attributes
pub mod ChannelData
pub mod Building
pub mod laws
pub mod Builders
pub use Rattle.byteorder.specs.Numbers
