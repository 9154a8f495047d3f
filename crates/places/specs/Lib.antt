-- The definitions of `places`.
pub mod Places
