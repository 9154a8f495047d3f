-- The definitions of `page`: the lines of a report.
pub mod Page
