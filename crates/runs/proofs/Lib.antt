-- What is proved of every run.
pub mod Local
