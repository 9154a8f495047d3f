-- Written by tools/pins --write. One outcome: what is seen of the lists, and the refusals.
pub mod Unfit
pub mod Sight
pub mod Heads
pub mod Places
pub mod Broken
pub mod Refusals
