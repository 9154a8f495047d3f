-- What else holds in every run: decided entries one of which begins the other, the row that is lent, the bytes of the report, a power cut, a message handed on, calls one after another.
pub mod Begins
pub mod Whole
pub mod Every
pub mod HandedOn
pub mod Calls
