-- Theorems over the definitions.
pub mod Slots
pub mod Order
pub mod Witness
