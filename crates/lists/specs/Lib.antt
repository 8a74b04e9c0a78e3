-- What is done with lists, places in them, and the theorems.
pub mod Lists
pub mod Inner
pub mod Laws
