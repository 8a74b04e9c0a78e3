-- For the functions' proofs: nothing here needs to be believed.
pub mod Found
pub mod Stepping
pub mod Track
