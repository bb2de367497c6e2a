-- What the test settles.
pub mod Settles
