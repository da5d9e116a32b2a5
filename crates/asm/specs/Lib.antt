-- Internal. The modules of this folder.
pub mod Radices
pub mod Faults
pub mod Lines
pub mod Statements
pub mod Programs
pub mod Reading
pub mod Parsing
pub mod Scanning
pub mod laws
