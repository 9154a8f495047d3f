-- Laws that the proofs of `lent_heads` use.
pub mod Laws
