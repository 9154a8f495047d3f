-- The definitions of `paxos_box`.
pub mod Box
pub mod Room
