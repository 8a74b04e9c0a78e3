-- The definitions that the contracts of `room` cite.
pub mod Distance
