-- What proofs here are made with: one name that opens every definition, outcomes told apart, equality tests, the parts of a state, and what closed cases
-- are written with.
pub mod Open
pub mod Outcomes
pub mod Tests
pub mod Parts
pub mod Scenes
