-- The laws of `layout_record`.
pub mod Words
pub mod Fits
pub mod Back
