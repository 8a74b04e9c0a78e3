-- Theorems about the definitions: nothing here needs to be believed.
pub mod Theorems
pub mod WholeTempos
