-- The laws of the definitions, for the proofs of this crate.
pub mod Sizes
pub mod Words
pub mod Going
pub mod Printing
pub mod Answering
pub mod Lengths
pub mod Examples
pub mod Theorems
