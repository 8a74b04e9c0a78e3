-- What the parts of a commit mean.
pub mod Inner
pub mod Laws
