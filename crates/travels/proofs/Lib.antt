-- The theorems of `travels`. Up: what is claimed lives on when a depot moves. Commit: from the cluster to what one depot sees, and back. Outside: counting what waits. Queues, Moves, Reply, Books: what
-- steps have in common. Follow: a follower's events. Elect, Note, Start, Open, Feed: a leader's. Cluster: the start, losses, drains, and what the invariant says of decided entries.
pub mod Tests
pub mod Up
pub mod Commit
pub mod Outside
pub mod Queues
pub mod Moves
pub mod Follow
pub mod Reply
pub mod Books
pub mod Elect
pub mod Note
pub mod Start
pub mod Open
pub mod Feed
pub mod Cluster
