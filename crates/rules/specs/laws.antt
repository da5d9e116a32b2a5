-- Interface. The laws of the definitions, which are proved, so that nobody has to believe them.
pub mod Amplification
pub mod Authentication
pub mod Challenges
pub mod Client
pub mod Discards
pub mod Isolation
pub mod Lengths
pub mod OwnChanges
pub mod OwnRows
pub mod Permitted
