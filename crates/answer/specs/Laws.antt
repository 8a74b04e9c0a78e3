-- Theorems over the definitions.
pub mod Runs
pub mod Whole
pub mod Amounts
pub mod Arrays
