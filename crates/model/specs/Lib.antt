-- The engine as lists and records, and theorems over it.
pub mod Sums
pub mod Peers
pub mod Engine
pub mod Election
pub mod Produce
pub mod Packet
pub mod Commit
pub mod Calls
pub mod Answer
pub mod Preview
pub mod Laws
