-- What the proofs of functions use, and what follows from contracts.
pub mod Laws
pub mod Constants
pub mod WholeFloats
pub mod Given
pub mod Comparisons
