-- Written by tools/pins --write. One outcome: what is written, and the whole step.
pub mod Step
pub mod Storage
pub mod Outgoing
pub mod LentHeads
pub mod DepotRow
pub mod Depot
pub mod OwnRow
