-- The definitions of `layout_row`.
pub mod Fields
pub mod Row
pub mod Event
