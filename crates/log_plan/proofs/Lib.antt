-- The laws of `log_plan`.
pub mod Ends
