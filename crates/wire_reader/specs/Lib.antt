-- What the private functions of the reader say.
pub mod Inner
