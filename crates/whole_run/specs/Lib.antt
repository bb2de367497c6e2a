-- What the contracts of a whole run cite.
pub mod Parts
pub mod Printing
pub mod Rooms
