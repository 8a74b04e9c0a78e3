-- What calls give, and how they end.
pub mod Called
pub mod Inner
pub mod Laws
