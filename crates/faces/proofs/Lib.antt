-- The theorems of `faces`: each handler of `taken` is an event of `travels`, wherever nothing is refused. Push, Sends, Reply, Places, Each: what handlers are made of. Opens,
-- Feeds, Feeding: what a leader sends to each follower. Prepare, Accept: a follower's handlers. Elected, Proposal, Promise: a leader's. Resend: the rest. Taken: all of them.
pub mod Push
pub mod Sends
pub mod Prepare
pub mod Reply
pub mod Accept
pub mod Places
pub mod Each
pub mod Opens
pub mod Feeds
pub mod Feeding
pub mod Elected
pub mod Proposal
pub mod Promise
pub mod Resend
pub mod Taken
