-- What the engine's state means.
pub mod Held
pub mod Inner
