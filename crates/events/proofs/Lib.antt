mod Events
mod Splits
mod WrittenBytes
