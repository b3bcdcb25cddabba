-- Facts about the codes of this crate's file.
pub mod Areas
pub mod Halves
pub mod Runs
pub mod Search
pub mod Within
pub mod Steps
