-- The definitions of `unfit`.
pub mod Unfit
