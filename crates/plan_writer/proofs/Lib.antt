-- What is proved of plans that are written, and both round trips.
pub mod Pasting
pub mod TableWords
pub mod Sizes
pub mod Back
pub mod SumWord
pub mod LentTables
pub mod Answers
pub mod Refusals
pub mod Settled
pub mod RoundTrip
pub mod Again
pub mod Calls
