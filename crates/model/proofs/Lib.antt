-- Theorems over the definitions: nothing here needs to be believed but what the theorems state.
pub mod Laws
