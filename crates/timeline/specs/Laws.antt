-- Theorems about the definitions: nothing here needs to be believed.
pub mod WholePhase
pub mod AnyPhase
pub mod Theorems
pub mod Closed
pub mod Differences
