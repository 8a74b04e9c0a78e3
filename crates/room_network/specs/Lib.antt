-- The packets under way in a queue.
pub mod Queue
pub mod Laws
