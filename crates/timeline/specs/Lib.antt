-- The definitions that the contracts of `timeline` cite, and theorems about them.
pub mod Phase
pub mod Same
pub mod Session
pub mod Laws
