-- Laws of the definitions: what the proofs cite, and worked examples.
pub mod Spaced
pub mod Said
pub mod Chain
pub mod Places
pub mod Lines
pub mod Examples
