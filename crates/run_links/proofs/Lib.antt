-- The computed runs, and what they break.
pub mod Runs
pub mod Links
