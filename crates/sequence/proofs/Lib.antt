-- The laws of `sequence`.
pub mod Laws
