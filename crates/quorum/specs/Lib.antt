-- The definitions of `quorum`.
pub mod Quorum
