-- The laws of `blocks`.
pub mod Blocks
pub mod Mapped
pub mod Filled
pub mod Any
