-- The theorems of `safety`. Good: the invariant of a run. Step: a depot's step keeps it. Moved: so does every move. Safe: parts (a) and (c) of the claim of demand 3, and equal
-- histories. Demand: the whole claim.
pub mod Good
pub mod Step
pub mod Moved
pub mod Safe
pub mod Demand
