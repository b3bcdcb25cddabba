-- What the proofs of this crate share.
pub mod Ranges
pub mod Refused
pub mod Step
