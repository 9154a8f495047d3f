-- The definitions of `leader_state`.
pub mod State
pub mod Promises
pub mod Places
