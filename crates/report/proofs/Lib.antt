-- The laws of `report`: a line's value, bytes read in order, and the whole report however the input is cut.
pub mod Value
pub mod Reading
pub mod Lines
pub mod Whole
pub mod Worked
