-- The definitions of `sequence`.
pub mod Sequence
