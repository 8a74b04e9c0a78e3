-- Theorems over the definitions: nothing here needs to be believed but what the theorems state.
pub mod Tools
pub mod Calls
pub mod Marked
pub mod Refusals
pub mod Clerk
pub mod Distance
pub mod Link
pub mod Examples
pub mod Differences
