-- The line that `showpacket` prints.
pub mod Line
pub mod Laws
