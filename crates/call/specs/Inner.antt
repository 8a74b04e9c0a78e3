-- What only private contracts and proofs cite: no reader of a public contract needs it.
pub mod Answered
pub mod Refusal
