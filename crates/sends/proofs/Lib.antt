-- The laws of `sends`.
pub mod Turns
