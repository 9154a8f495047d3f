-- The definitions of `refusal_laws`.
pub mod Rows
