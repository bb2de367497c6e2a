-- What the contracts of this crate cite beside the definitions of the crates below it.
pub mod Told
pub mod Places
pub mod Promises
