-- The definitions of `sight`.
pub mod Sight
