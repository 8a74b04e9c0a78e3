-- Theorems over the definitions.
pub mod Calm
pub mod Inserted
pub mod Keeping
pub mod Known
pub mod Opening
pub mod Placed
pub mod Polling
pub mod Survey
