-- The distance rule: its statement, a wider one, their proof, and pairs of lists of calls that meet its premises.
pub mod Statement
pub mod Wider
pub mod Lists
pub mod Sizes
pub mod Reads
pub mod Elections
pub mod Exact
pub mod EveryInterface
