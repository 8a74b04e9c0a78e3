-- The parts of upkeep.
pub mod Inner
pub mod Laws
