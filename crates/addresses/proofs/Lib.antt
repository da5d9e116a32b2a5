pub mod ByteOrder
