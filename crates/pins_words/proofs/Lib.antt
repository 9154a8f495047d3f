-- Written by tools/pins --write. One outcome: records, rows, events and configurations as words.
pub mod Blocks
pub mod Tags
pub mod LayoutRecord
pub mod LayoutRow
