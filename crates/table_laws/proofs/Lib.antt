-- The theorems of `table_laws`; Exactly is read first, beside specs/Words.
pub mod Flags
pub mod Flagged
pub mod Following
pub mod Leading
pub mod Promising
pub mod Exactly
