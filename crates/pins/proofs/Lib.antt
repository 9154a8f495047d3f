-- One outcome.
pub mod One
