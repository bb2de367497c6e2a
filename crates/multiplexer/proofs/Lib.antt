pub mod Admits
pub mod Offers
pub mod Sounds
pub mod Steps
pub mod Settles
pub mod SameCalls
