-- The definitions of `table_laws`.
pub mod Words
