-- Written by tools/pins --write. One outcome: what each event decides.
pub mod Leader
pub mod Reconnect
pub mod Accepting
pub mod Follower
pub mod Outcome
pub mod SequencePaxos
