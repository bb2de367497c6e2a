-- What the promises of the public calls cite.
pub mod Promised
pub mod Promises
