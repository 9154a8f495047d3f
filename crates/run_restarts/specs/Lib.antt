-- The definitions of `run_restarts`.
pub mod Forgetful
pub mod Moves
pub mod Restarts
