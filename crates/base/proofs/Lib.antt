-- The laws of `base`: rulesets, refusals by number, lists, counts and tests.
pub mod Sets
pub mod Lists
pub mod Meet
pub mod Tests
pub mod Numbers
