-- Laws of the changes of the tables.
pub mod SettingsParts
pub mod SmallChanges
pub mod PassedTo
pub mod LinkWritten
pub mod RowChanges
pub mod NewBox
pub mod Opened
pub mod Settles
