-- The definitions of `run_laws`.
pub mod Begins
pub mod Report
