-- The definitions of `depot`.
pub mod Heads
