-- Laws that the proofs of `rounds` use.
pub mod Laws
