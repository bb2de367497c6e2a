-- What the contracts of this crate cite beside the definitions of `meaning`, and what the round trips speak of.
pub mod Bytes
pub mod Written
pub mod Writable
pub mod FirstRefusal
