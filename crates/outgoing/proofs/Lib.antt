-- The laws of `outgoing`.
pub mod Heads
pub mod Laid
pub mod Edits
pub mod Cells
pub mod Turns
pub mod Steps
pub mod Kept
