-- What the contracts of the queries cite.
pub mod Preview
