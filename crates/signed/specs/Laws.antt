-- Laws of the definitions, and what proofs over signed numbers are made of.
pub mod Diff
pub mod Order
pub mod Quotient
pub mod Signs
pub mod Residue
pub mod Tests
pub mod WrapLaws
pub mod Theorems
