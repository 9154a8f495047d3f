-- The definitions of `leader`.
pub mod Leader
