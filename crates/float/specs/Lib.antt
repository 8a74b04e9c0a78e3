-- The definitions that the contracts of `float` cite, and theorems about them.
pub mod Whole
pub mod Digits
pub mod Inner
pub mod Laws
