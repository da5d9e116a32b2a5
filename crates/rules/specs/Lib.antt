-- Internal. The modules of this folder.
pub mod Amplification
pub mod Answers
pub mod Authentication
pub mod ByRules
pub mod Discards
pub mod Dispositions
pub mod laws
pub mod FastPart
pub mod Isolation
pub mod Permitted
pub mod Rules
pub mod Systems
