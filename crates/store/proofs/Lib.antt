-- Laws of the store of waiting packets.
pub mod Sums
pub mod Moving
pub mod QueueLaws
pub mod Shift
pub mod JoinTake
pub mod Loading
