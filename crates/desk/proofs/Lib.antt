-- The desk's claim, that every promise allows one outcome, and wrong answers ruled out.
pub mod Rows
pub mod Answers
pub mod Lent
pub mod Step
pub mod Link
pub mod Wrong
