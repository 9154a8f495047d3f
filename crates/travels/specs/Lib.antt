-- The definitions of `travels`. Face: what of a depot the protocol reads. Outside: what of it is in no log yet. Facts: what is claimed of a message and of a depot. Inv: the invariant of a cluster. Near: the same as one depot sees it.
pub mod Face
pub mod Outside
pub mod Facts
pub mod Inv
pub mod Near
