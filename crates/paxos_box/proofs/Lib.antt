-- The laws of `paxos_box`.
pub mod Rooms
