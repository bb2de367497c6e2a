-- A run on words is the run on contents, so what holds of every run holds of the program's memory.
pub mod RunOnWords
pub mod FromOpening
pub mod InMemory
pub mod AsPromised
pub mod Beyond
