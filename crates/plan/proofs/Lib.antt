-- What is proved of plans that are read: their parts, the stretches of their slots, and each number in its one case.
pub mod WordLaws
pub mod EntryLaws
pub mod Passes
pub mod LaidOut
pub mod Answers
pub mod Fitting
pub mod Slots
pub mod Stretch
pub mod Good
pub mod Walk
pub mod Refusals
pub mod Settled
