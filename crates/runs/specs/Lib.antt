-- The definitions of `runs`.
pub mod Runs
pub mod Claim
