-- The definitions of `ballot`.
pub mod Ballot
