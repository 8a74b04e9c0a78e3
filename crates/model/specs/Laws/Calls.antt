-- What holds of every call and of every box that calls lead to: sizes, order, ranges, outputs.
pub mod Messages
pub mod Stages
pub mod Course
pub mod Kept
pub mod Within
pub mod Reach
pub mod Outputs
pub mod Full
pub mod Told
pub mod Says
pub mod Fits
