-- The definitions of `outgoing`.
pub mod Queue
pub mod Perform
pub mod Packing
