-- The definitions of `step`.
pub mod Step
pub mod Writable
