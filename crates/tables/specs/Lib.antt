-- What the calls on the tables promise.
pub mod Opening
pub mod TableChanges
