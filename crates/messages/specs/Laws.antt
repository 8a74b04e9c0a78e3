-- Theorems over the definitions.
pub mod Heard
pub mod Owner
