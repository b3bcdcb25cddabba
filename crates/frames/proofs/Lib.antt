-- What the proofs of this crate share.
pub mod Read
pub mod Written
