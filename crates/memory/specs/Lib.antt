-- What the theorems about the program's memory speak of.
pub mod Runs
pub mod Performed
