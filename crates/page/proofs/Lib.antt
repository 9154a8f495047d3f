-- The laws of `page`: a report's lines, and how long they are.
pub mod Rows
pub mod Sizes
