-- Theorems over the definitions.
pub mod Sizes
pub mod Parts
