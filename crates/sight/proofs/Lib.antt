-- The laws of `sight`: places within a list, searching from the front, and sums over the row.
pub mod Heads
pub mod First
pub mod Sums
