-- The definitions of `views`.
pub mod View
