-- What the words of an answer say of it.
pub mod Tells
