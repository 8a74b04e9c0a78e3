-- Theorems over the definitions.
pub mod SwitchedOn
