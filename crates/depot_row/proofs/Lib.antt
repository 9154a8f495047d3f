-- Laws that the proofs of `depot_row` use.
pub mod Laws
