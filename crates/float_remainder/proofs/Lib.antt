-- What the proofs of several functions use.
mod Values
mod Shifts
