-- The laws of `refusals`: each number is given exactly when its row says, what an event says that none is given, and a fresh box is not refused.
pub mod Exactly
pub mod Taken
pub mod Says
pub mod Sound
pub mod Fresh
