-- What the contracts of the allowance cite.
pub mod Record
