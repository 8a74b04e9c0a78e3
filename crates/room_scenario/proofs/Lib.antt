-- What the proofs of several functions use.
mod Digits
mod Fronts
mod Opened
