-- How a host calls the code's engine and reads its answers, and what holds of the engine and of what is read.
pub mod Host
pub mod Read
pub mod Laws
