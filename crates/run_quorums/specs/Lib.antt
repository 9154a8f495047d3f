-- The definitions of `run_quorums`.
pub mod Unjudged
pub mod Unlike
pub mod Moves
pub mod Quorums
