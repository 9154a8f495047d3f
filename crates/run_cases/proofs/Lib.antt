-- The computed runs, and the rules by which they go.
pub mod Computing
pub mod Rules
pub mod Stepping
pub mod Seen
pub mod Parted
pub mod Runs
pub mod Cases
