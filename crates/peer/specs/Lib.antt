-- What a neighbour's state means.
pub mod Held
pub mod Inner
