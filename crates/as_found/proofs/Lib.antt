-- Laws that the proofs of `as_found` use.
pub mod Laws
