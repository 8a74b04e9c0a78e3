-- The proofs of the functions stand in the folders beside this file.
pub mod Laws
pub mod Comparisons
