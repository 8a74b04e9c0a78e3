-- What the array of interfaces means, and what is looked for in it.
pub mod Held
pub mod Inner
