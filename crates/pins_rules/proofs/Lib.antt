-- Written by tools/pins --write. One outcome: the rules of ballots, numbers, quorums and the leader record.
pub mod Base
pub mod Ballot
pub mod Sequence
pub mod Quorum
pub mod Messages
pub mod LeaderState
