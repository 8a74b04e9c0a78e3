-- Theorems over the definitions.
pub mod AllStay
pub mod Kept
pub mod Oldest
pub mod Pings
pub mod Settled
pub mod Stay
pub mod Whole
