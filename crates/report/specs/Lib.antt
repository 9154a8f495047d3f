-- The definitions of `report`: what is written for what is read, how a reader goes through its bytes, and what each call gives.
pub mod Report
pub mod Reading
pub mod Step
