-- Theorems about the definitions: nothing here needs to be believed.
pub mod Sizes
pub mod Entries
pub mod Reads
pub mod RoundTrip
pub mod Same
