-- The definitions of `run_links`.
pub mod Loose
pub mod Moves
pub mod Links
