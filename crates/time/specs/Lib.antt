-- The definitions that the contracts of `time` cite, and theorems about them.
pub mod Convert
pub mod Same
pub mod WholeTempo
pub mod Inner
pub mod Laws
