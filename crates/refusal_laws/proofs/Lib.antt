-- The theorems of `refusal_laws`; Exactly is read first, beside specs/Rows.
pub mod Ready
pub mod Number
pub mod Exactly
pub mod Six
