-- The laws of `layout_row`.
pub mod Fits
pub mod Back
pub mod Events
