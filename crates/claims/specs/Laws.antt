-- What holds after any list of calls on the code's engine, and of the bytes that it answered with.
pub mod Addressed
pub mod Claims
pub mod Counted
pub mod Led
pub mod Packets
pub mod ReadBack
pub mod Replies
pub mod Witness
