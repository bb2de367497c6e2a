-- What the contracts of this crate cite beside the definitions of `meaning`, and the laws on them that stand on nothing else.
pub mod Parts
pub mod Readable
pub mod FirstRefusal
pub mod Entries
pub mod StretchPlaces
