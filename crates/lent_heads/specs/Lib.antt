-- The definitions of `lent_heads`.
pub mod Heads
