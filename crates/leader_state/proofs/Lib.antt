-- The laws of `leader_state`.
pub mod Chosen
pub mod Past
pub mod Rows
