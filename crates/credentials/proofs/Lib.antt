pub mod IntegrityBytes
pub mod Users
pub mod Values
pub mod Signed
pub mod Results
