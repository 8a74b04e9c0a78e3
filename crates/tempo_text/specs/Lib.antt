-- What `tempolist` answers.
pub mod Answer
pub mod Values
pub mod Laws
