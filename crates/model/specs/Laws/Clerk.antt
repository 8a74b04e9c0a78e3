-- The clerk's questions: which neighbours are held and counted, when one is dropped, what an announcement or a pong that comes twice does; and lists of calls
-- that meet their premises.
pub mod Neighbours
pub mod Times
pub mod Ids
pub mod Twice
pub mod PingTimes
pub mod Count
pub mod Staying
pub mod Seen
pub mod Silent
pub mod Pings
pub mod Asked
pub mod Quiet
pub mod Claims
