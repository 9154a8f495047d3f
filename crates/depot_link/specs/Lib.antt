-- The definitions of `depot_link`.
pub mod Link
pub mod Report
