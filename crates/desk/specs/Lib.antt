-- What the desk claims, and wrong answers that the promises rule out.
pub mod Desk
pub mod Wrong
