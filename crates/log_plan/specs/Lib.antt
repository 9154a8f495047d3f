-- The definitions of `log_plan`.
pub mod Log
