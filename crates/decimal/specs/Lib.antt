-- The definitions of `decimal`: numbers as rows of digits, and bytes put into a lent buffer.
pub mod Digits
pub mod Text
