-- What the contracts of the host's calls cite.
pub mod Errors
pub mod Inner
pub mod Laws
