-- The definitions of `sequence_paxos`.
pub mod Decide
pub mod Fit
