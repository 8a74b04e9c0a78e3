-- What only private contracts and proofs cite: no reader of a public contract needs it.
pub mod Asked
pub mod Calm
pub mod Known
pub mod Opened
pub mod Tests
