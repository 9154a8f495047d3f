-- The laws of `quorum`.
pub mod Laws
