-- The laws of the definitions, for the proofs of this crate and of those above it.
pub mod Decimals
pub mod Digits
pub mod Parts
pub mod Pieces
pub mod Placing
pub mod ReadBack
