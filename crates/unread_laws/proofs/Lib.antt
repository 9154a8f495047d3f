-- What a step does not read: Unread is read first.
pub mod Mix
pub mod Boxes
pub mod Sending
pub mod Leading
pub mod Following
pub mod Deciding
pub mod Refusing
pub mod Viewing
pub mod Unread
pub mod Keeping
pub mod Restarting
