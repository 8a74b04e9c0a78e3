-- What a big-endian number is, what stands in a list of bytes where one is written, and what a writer answers.
pub mod Bytes
pub mod Written
pub mod Laws
