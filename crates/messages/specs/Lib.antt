-- What the answer to a message means.
pub mod Inner
pub mod Laws
