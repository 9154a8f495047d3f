-- The laws of `tags`.
pub mod Back
