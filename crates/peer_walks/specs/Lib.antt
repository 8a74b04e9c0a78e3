-- What is looked for, what a survey finds, what is known in a session, whom a poll asks, who stays, and what moves up.
pub mod Inner
pub mod Laws
