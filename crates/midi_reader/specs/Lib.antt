-- What the private functions of the reader say, and laws for their proofs.
pub mod Steps
pub mod Laws
