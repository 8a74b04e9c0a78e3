-- Theorems over lists, and over arrays with a count.
pub mod Bools
pub mod Each
pub mod ListLaws
pub mod Distinct
pub mod Along
pub mod Arrays
pub mod Found
pub mod Firsts
pub mod Best
