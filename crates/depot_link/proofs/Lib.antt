-- The laws of `depot_link`.
pub mod Link
