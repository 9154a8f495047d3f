-- The definitions of `sends`.
pub mod Sends
