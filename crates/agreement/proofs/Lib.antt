-- The theorems of `agreement`: THE CORE is `agreement` (Agree). Growth and Moves: C1 to C3 live on. Decided, Hold, Report, Lead: what a protocol supplies at each move, and
-- what it gets. Stream, Flow, Queue: what is under way. Proposed: nothing is made up. Often: counting. Sample: the facts can all hold, and something can be chosen.
pub mod Order
pub mod Same
pub mod Update
pub mod All
pub mod Agree
pub mod Growth
pub mod Moves
pub mod Decided
pub mod Hold
pub mod Report
pub mod Stream
pub mod Lead
pub mod Flow
pub mod Queue
pub mod Proposed
pub mod Often
pub mod Sample
