-- The definitions of `blocks`.
pub mod Blocks
