-- Facts about numbers and lists that no document names, one place for all crates.
pub mod Deciding
pub mod Division
pub mod Finding
pub mod Found
pub mod Gaining
pub mod Groups
pub mod Lists
pub mod Places
pub mod Putting
pub mod Quotients
pub mod Search
pub mod Series
pub mod SumLaws
pub mod Sums
pub mod Tests
pub mod Turns
