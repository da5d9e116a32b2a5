-- Internal. The modules of this folder.
pub mod Hmac
pub mod Integrity
pub mod Texts
pub mod Checks
pub mod Results
pub mod Keys
pub mod TimeLimited
pub mod Signs
pub mod laws
