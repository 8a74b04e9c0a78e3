-- Theorems over the definitions.
pub mod Considered
