-- The definitions of `faces`.
pub mod Mid
