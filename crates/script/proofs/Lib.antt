-- Facts that the proofs of several functions cite.
pub mod Headers
pub mod Texts
pub mod Lines
pub mod Runs
