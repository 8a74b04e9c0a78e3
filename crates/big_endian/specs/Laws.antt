-- The laws of the definitions, for the proofs of this crate and of those above it.
pub mod Numbers
pub mod Puts
pub mod Writing
