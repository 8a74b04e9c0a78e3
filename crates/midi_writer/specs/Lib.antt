-- What the private functions of the writer say, and laws for their proofs.
pub mod Steps
pub mod Laws
