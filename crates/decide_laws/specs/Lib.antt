-- The definitions of `decide_laws`.
pub mod Counts
pub mod Memory
