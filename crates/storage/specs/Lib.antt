-- The definitions of `storage`.
pub mod Storage
