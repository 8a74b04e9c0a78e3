-- Numbers and given words as text, in ASCII, and what a slice is after a text was put into it; the lines of a text, and its decimal numbers.
pub mod Ascii
pub mod Digits
pub mod Lines
pub mod Numerals
pub mod Part
pub mod Placed
pub mod Laws
