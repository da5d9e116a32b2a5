pub mod Grammar
pub mod Datagrams
pub mod Readings
pub mod Integrity
pub mod Writing
