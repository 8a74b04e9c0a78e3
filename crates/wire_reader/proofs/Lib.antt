-- What the proofs of several functions use.
mod Scanning
mod Values
