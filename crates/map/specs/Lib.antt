-- Where malloc's search ends.
pub mod Runs
