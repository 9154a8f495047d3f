-- The definitions of `reconnect`.
pub mod Reconnect
