-- The definitions of `accepting`.
pub mod Accepting
