-- Written by tools/pins --write. One outcome: the deciding box and its record, and what it plans.
pub mod PaxosBox
pub mod Record
pub mod Sends
pub mod LogPlan
