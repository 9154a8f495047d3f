-- Theorems about the hire book's rules: `stored-days` and `stored-total` (Stored), `charged-once` (Once).
-- That a run may be cut anywhere and that every book made from the fresh one stands are `apply-append` and `book-sound` of hire_book's Entries.
pub mod Count
pub mod Pairs
pub mod Stored
pub mod Once
