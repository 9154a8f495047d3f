-- The definitions of `heads`.
pub mod Heads
