-- What becomes of a packet, and the parts of an engine that a message looks at.
pub mod Heard
pub mod Parts
