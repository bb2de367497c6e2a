-- What the theorems about runs speak of.
pub mod Runs
pub mod Isolation
