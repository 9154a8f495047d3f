-- The laws of `places`: what a record whose places pass no test says, and what a test passed in says of the places.
pub mod Tests
pub mod Tells
