-- The definitions of `record`.
pub mod Record
