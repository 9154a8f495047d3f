-- The laws of `decimal`: what reading and writing digits give, and texts put one after the other.
pub mod Digits
pub mod Text
