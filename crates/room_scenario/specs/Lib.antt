-- What a scenario's text says: the definitions that the contract of `read` cites.
pub mod Text
pub mod Words
pub mod Script
pub mod Grammar
pub mod Faults
pub mod Fields
pub mod Inner
pub mod Laws
