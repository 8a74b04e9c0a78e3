-- What a plan of outputs means, and what the private writers do.
pub mod Inner
pub mod Laws
