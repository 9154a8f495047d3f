-- The definitions of `tags`.
pub mod Tags
pub mod Variants
