-- The definitions of `base`: limits, refusals, lists and counts over them.
pub mod Limits
pub mod Refusal
pub mod Lists
pub mod Count
