-- For the functions' proofs: nothing here needs to be believed.
pub mod Fields
pub mod Digits
pub mod Bounds
pub mod Turns
pub mod Laying
pub mod Filed
