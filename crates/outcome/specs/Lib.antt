-- The definitions of `outcome`.
pub mod Outcome
