-- What the proofs of this crate share.
pub mod Groups
pub mod Rising
