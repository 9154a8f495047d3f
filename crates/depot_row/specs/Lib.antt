-- The definitions of `depot_row`.
pub mod Decided
