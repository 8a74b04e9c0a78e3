-- The distance rule: its statement, a wider one, their proof, and pairs of lists of calls that meet its premises.
pub mod Elections
pub mod Sent
pub mod Held
pub mod Taken
pub mod Rule
pub mod EveryInterface
pub mod Witness
pub mod TwoInterfaces
