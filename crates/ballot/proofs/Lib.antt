-- The laws of `ballot`.
pub mod Laws
