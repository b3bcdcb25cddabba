-- What the tests before an operation show, and what they go through.
pub mod Step
pub mod Ranges
