-- The definitions of `agreement`. Core: what is claimed, and of what; read it first. Growth, Moves: how the ghost data grows. Facts, Report: what a protocol over the core
-- says of a depot's durable part and of what depots tell each other. Stream: what is under way from a leader to a follower. Queue: one queue for many receivers. Often: counting.
pub mod Order
pub mod Core
pub mod Update
pub mod Growth
pub mod Moves
pub mod Facts
pub mod Report
pub mod All
pub mod Proposed
pub mod Often
pub mod Stream
pub mod Queue
