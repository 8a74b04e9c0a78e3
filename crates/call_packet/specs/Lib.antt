-- What is put out for a packet.
pub mod Inner
pub mod Laws
