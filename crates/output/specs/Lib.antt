-- The outputs that the code's values stand for.
pub mod Inner
pub mod Laws
