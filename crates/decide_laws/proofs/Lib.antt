-- Theorems about what a step decides.
pub mod Table
pub mod Grown
pub mod Marks
pub mod Sends
pub mod Log
pub mod Leader
pub mod Follower
pub mod Steps
pub mod Five
pub mod Memory
