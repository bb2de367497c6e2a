-- What the contracts of the lines cite.
pub mod Put
