-- The definitions of `follower`.
pub mod Follower
