-- The definitions of `broken`.
pub mod Lent
pub mod Broken
