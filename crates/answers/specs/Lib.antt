-- What the contracts of this crate cite beside the definitions of the answers.
pub mod Fitting
