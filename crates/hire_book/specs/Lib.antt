-- The definitions of `hire_book`: what a history of entries charges, the book's cells, and what each call gives.
pub mod Below
pub mod Hire
pub mod Book
pub mod Step
