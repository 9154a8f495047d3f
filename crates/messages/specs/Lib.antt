-- The definitions of `messages`.
pub mod Messages
