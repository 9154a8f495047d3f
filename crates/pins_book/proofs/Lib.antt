-- Written by tools/pins --write. One outcome: the hire book and the report.
pub mod Put
pub mod HireBook
pub mod Decimal
pub mod Page
pub mod Report
