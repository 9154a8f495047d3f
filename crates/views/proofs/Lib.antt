-- The theorems of `views`: a taken step does to the view what its plan says, a refused one nothing, and counts stay the lengths of lists: `taken-view`, `refused-view`,
-- `Counted-step` (Step). Of a plan whose counts are the lengths of lists: `viewed` (View); of every taken step it is one: `plain` (Step). The deciding box is made of the
-- view: `box-viewed` (Box).
pub mod Front
pub mod Lists
pub mod View
pub mod Box
pub mod Fine
pub mod Plain
pub mod Moves
pub mod Step
