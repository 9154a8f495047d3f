-- The laws of `hire_book`: tests over numbers below a bound, a pump's cells after a store, sound books, entries in order, answers told.
pub mod Below
pub mod Kept
pub mod Cells
pub mod Sound
pub mod Entries
pub mod Told
