-- Laws that the proofs of `depot` use.
pub mod Laws
