-- What an election decides, and what its parts mean.
pub mod Inner
pub mod Laws
