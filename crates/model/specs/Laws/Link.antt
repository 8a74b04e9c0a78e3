-- What Link's public documentation and test plan describe: what an election may do to our line, what enabling leaves alone, what is told, sent and counted,
-- how a start or a stop comes across, where this engine differs, and lists of calls that meet the premises.
pub mod Best
pub mod Elected
pub mod Sessions
pub mod Joining
pub mod Enabling
pub mod Reports
pub mod Announces
pub mod Interfaces
pub mod StartStop
pub mod Differences
