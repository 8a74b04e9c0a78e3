-- Theorems over the definitions.
pub mod First
pub mod Next
