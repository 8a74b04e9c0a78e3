-- The rules of docs/ROOM.md that the contracts of `room_world` cite.
pub mod World
pub mod Ports
pub mod Timers
pub mod Next
pub mod Laws
