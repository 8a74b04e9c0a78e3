-- How calls return.
pub mod Admitted
pub mod Empty
pub mod Ended
pub mod Returned
pub mod ReturnedIn
pub mod Within
