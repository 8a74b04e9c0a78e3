-- The definitions that the contracts of `signed` cite, and laws about them.
pub mod Wrap
pub mod Equal
pub mod Wide
pub mod Laws
