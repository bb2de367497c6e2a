-- Laws that the proofs of this crate share, and what is proved of its promises.
pub mod Tells
pub mod Sizes
pub mod Stretches
pub mod Settles
