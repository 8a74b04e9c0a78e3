-- The definitions that the contracts of `wire`, `wire_reader` and `wire_writer` cite, and theorems about them.
pub mod Layout
pub mod Parse
pub mod Same
pub mod Written
pub mod Laws
