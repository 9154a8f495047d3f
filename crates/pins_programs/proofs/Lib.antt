-- Written by tools/pins --write. One outcome: what the programs share.
pub mod Cluster
pub mod Rounds
