-- Theorems above those of specs/Laws: where an edit of a definition makes a theorem false, what rests on it stands here, and so can be refused with it.
pub mod Calls
pub mod Previews
pub mod Clerk
pub mod Distance
pub mod Link
