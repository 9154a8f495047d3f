-- The definitions of `layout_record`.
pub mod Words
pub mod Kept
pub mod Reading
