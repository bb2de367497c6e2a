-- Laws of the layout and of soundness, and how contents change with words.
pub mod Ranges
pub mod Rotation
pub mod Laid
pub mod PutContents
pub mod ContentsPut
pub mod TableReads
pub mod Counts
pub mod QueuesTested
pub mod TestedSound
pub mod Same
pub mod Storing
pub mod Becoming
pub mod TableChange
pub mod Readings
