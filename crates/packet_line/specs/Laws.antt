-- Laws of the parts of a line, and examples.
pub mod Examples
pub mod Parts
