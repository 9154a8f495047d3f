-- The laws of `heads`: entries that lie apart in the store are no more than it holds, and what each test says of the queued heads, passed in or not.
pub mod Apart
pub mod Tests
pub mod Tells
