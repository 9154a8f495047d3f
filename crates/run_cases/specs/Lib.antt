-- The definitions of `run_cases`.
pub mod Seen
pub mod Old
pub mod Loose
pub mod Moves
pub mod Parted
pub mod Stepping
pub mod Cases
